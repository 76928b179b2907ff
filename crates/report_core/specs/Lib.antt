pub mod Hmac
pub mod Report
