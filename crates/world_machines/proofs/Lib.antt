pub mod Accepted
pub mod Answering
pub mod Dealt
pub mod Moving
pub mod Places
pub mod Returned
pub mod Rooms
pub mod Taken
