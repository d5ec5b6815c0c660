pub mod Calls
pub mod Given
pub mod Limits
pub mod Plans
pub mod Rooms
pub mod Seating
pub mod Slots
pub mod Views
