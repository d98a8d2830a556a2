pub mod Offices
pub mod ShopBook
pub mod Faults
pub mod Calls
