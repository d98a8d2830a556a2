pub mod Answers
pub mod Batches
pub mod CallRecord
pub mod Desk
pub mod Journals
pub mod LineCall
