mod RoomLemmas
mod EditLemmas
mod FollowLemmas
pub mod EventLemmas
pub mod FrontLemmas
mod SeenLemmas
pub mod NumberLemmas
pub mod DistinctLemmas
mod PlaceLemmas
pub mod GrowthLemmas
pub mod FieldLemmas
pub mod WaitLemmas
pub mod ItemLemmas
pub mod LineLemmas
pub mod FollowedLemmas
pub mod ReadLemmas
pub mod DepthLemmas
pub mod SaidLemmas
pub mod FormLemmas
pub mod GivenLemmas
pub mod ElementLemmas
pub mod BoundLemmas
pub mod ScriptLemmas
pub mod CountLemmas
pub mod ListLemmas
pub mod NamedLemmas
pub mod OrderLemmas
pub mod SaidPlaceLemmas
pub mod FrontLawLemmas
pub mod DueLemmas
pub mod GuardLemmas
pub mod UsedLemmas
