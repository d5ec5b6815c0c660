-- Clients with their sessions, seats and opens.
pub mod Session
pub mod SessionTables
pub mod SessionRuns
pub mod SeatRuns
pub mod SlotsHeld
pub mod KeptReplies
pub mod Opens
pub mod StateIds
pub mod OpensLaws
pub mod OpenClients
pub mod StateIdLaws
pub mod StateIdRuns
