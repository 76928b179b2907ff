pub mod Logs
pub mod Worked
