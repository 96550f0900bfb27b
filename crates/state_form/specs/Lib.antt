pub mod Items
pub mod Form
