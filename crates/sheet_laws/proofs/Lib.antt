pub mod TablesBack
pub mod ModelBack
pub mod Largest
pub mod Examples
pub mod Refusals
pub mod SameModel
pub mod FirstPlaces
