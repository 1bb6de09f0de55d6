pub mod UnpackLaws
pub mod GivenLaws
