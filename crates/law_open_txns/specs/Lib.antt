pub mod Transaction
pub mod Laws
