pub mod Lists
pub mod Steps
pub mod Seating
pub mod Turning
pub mod Lending
pub mod Gathering
