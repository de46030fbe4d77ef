pub mod FoundBeyond
pub mod Spreads
pub mod Cut
pub mod Misfits
pub mod Expansions
pub mod PatternFaults
pub mod PatternCame
pub mod Expanded
pub mod CheckedPattern
pub mod StringsBack
mod InstancesShown
mod ShownJson
mod SettledJson
mod Succeeded
mod Together
mod Emptied
mod Exactly
mod FirstWaits
