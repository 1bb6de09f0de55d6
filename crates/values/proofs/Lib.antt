pub mod ValueLaws
pub mod PlacesLaws
