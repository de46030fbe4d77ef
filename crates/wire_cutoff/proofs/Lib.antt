mod Numbers
mod Callers
mod Judgement
pub mod Members
pub mod Listed
mod Items
pub mod Selected
mod Ordered
mod Used
mod FewCasts
pub mod Judged
mod ManyTurns
mod Largest
mod FoundIn
pub mod Alike
pub mod Texts
mod OnNodes
mod Pairs
mod FirstNodes
