pub mod Bookings
pub mod Legal
pub mod Owned
pub mod Told
