pub mod SetLaws
pub mod LeadLaws
pub mod PartLaws
pub mod CutLaws
pub mod CountLaws
pub mod FlatLaws
pub mod MaskLaws
pub mod FollowLaws
