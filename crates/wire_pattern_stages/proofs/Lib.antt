mod Lists
mod Sources
mod Kept
mod Swept
mod Seen
