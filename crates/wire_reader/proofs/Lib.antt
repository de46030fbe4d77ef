mod TextTable
mod Apart
pub mod Adding
pub mod Judging
pub mod Once
pub mod Within
pub mod Lists
pub mod Places
pub mod Steps
pub mod Targets
pub mod NamedRanges
pub mod NamedPlaces
pub mod Notes
pub mod Seen
pub mod Tables
pub mod Sound
pub mod Recut
pub mod Changed
pub mod DeclaredLines
pub mod Ranked
pub mod Standing
pub mod Numbered
pub mod SameMembers
pub mod Again
pub mod Said
pub mod ReadBack
pub mod Migrated
pub mod ProcTable
pub mod OrderSteps
pub mod RankParts
pub mod OrderLimited
pub mod Limited
pub mod QuestionRead
pub mod Parsing
pub mod Cutting
pub mod Declaring
mod Onwards
mod Passed
mod SameScripts
