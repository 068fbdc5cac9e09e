pub mod Drawers
pub mod Left
pub mod Onward
pub mod Placing
pub mod Showing
pub mod Trailing
