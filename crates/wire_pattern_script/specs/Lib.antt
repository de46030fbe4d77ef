pub mod FirstPass
pub mod Drafted
pub mod Numbers
pub mod Faults
pub mod Reads
pub mod Fit
