pub mod DijkstraLaws
pub mod PickLaws
pub mod LowerLaws
pub mod JoinLaws
pub mod CostLaws
