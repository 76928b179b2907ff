pub mod Acceptances
pub mod Extensions
pub mod ReportsTold
pub mod WordsTold
