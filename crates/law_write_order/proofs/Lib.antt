pub mod Found
pub mod Asked
pub mod Singles
pub mod Order
