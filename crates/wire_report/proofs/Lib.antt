pub mod Appended
pub mod Chains
pub mod Counts
mod Distinct
pub mod Ends
pub mod Forms
mod GroupLaws
pub mod Grouped
mod Groups
pub mod Labels
mod LabelLaws
pub mod LinesLeft
mod Noted
mod GroupOrder
mod Parted
pub mod Parts
pub mod Room
pub mod Rows
pub mod SameLabels
pub mod Streams
