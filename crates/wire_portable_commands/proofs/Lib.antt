pub mod Answered
pub mod Told
pub mod SpelledLines
pub mod SpellingCame
pub mod Blames
pub mod Settled
