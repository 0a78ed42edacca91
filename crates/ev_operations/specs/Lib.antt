pub mod Dues
pub mod Courses
