mod Grouped
mod Listed
mod Ordered
pub mod Checked
pub mod CheckedAnywhere
pub mod Failures
pub mod Followed
pub mod Reported
pub mod Judged
pub mod Moved
pub mod Questioned
pub mod ReplayWritten
pub mod Texts
pub mod Worked
pub mod Written
