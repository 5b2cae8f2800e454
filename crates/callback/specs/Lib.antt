pub mod Requests
pub mod Strangers
