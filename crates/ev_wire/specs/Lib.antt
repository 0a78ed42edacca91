pub mod Kinds
pub mod Requests
pub mod Bodies
pub mod Responses
