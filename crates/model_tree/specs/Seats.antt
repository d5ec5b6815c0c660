-- What a volume has of persistent sessions.
pub mod Seats
pub mod SeatEdits
pub mod SeatWrites
pub mod SeatViews
