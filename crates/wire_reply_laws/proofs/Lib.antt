mod Rise
mod FullerLabels
mod AllDone
mod Judged
mod Lawful
pub mod TextsAnswered
