pub mod Numbers
pub mod Middle
pub mod Laws
