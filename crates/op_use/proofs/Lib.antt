mod AfterSteps
mod AppliedData
mod AppliedLemmas
mod BuiltLemmas
mod ChangingSteps
mod Deleted
mod FollowSteps
mod Given
mod KeySets
mod KeySteps
mod ListedSteps
mod MapIsZone
pub mod MapZones
mod Meaning
mod MergeSteps
mod Origins
mod OutcomeSteps
pub mod OwnerKeys
mod OwnerParts
mod OwnerRuns
pub mod RaisedLemmas
mod ServerRowsLemmas
mod SettleSteps
mod ToldSteps
pub mod TypeSteps
mod UpdateSteps
pub mod WalkSteps
pub mod WholeSteps
mod ZoneSteps
