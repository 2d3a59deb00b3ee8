-- What a head says, the table of a configuration, and the text of a head that is written.
pub mod Head
pub mod Table
pub mod Written
