pub mod Given
pub mod Triple
