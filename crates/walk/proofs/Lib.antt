pub mod TurnLaws
pub mod FollowLaws
pub mod WalkLaws
