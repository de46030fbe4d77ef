pub mod Answered
pub mod Stages
