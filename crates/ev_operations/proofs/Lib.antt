pub mod DueLemmas
pub mod CourseLemmas
pub mod SeatLemmas
