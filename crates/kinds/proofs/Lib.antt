pub mod Table
pub mod Requests
