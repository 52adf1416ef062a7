mod Asked
pub mod RefinedRuns
mod Attempts
mod Contracts
pub mod HadTurns
mod Posted
mod Headlined
mod IdleWorlds
mod TurnHalves
mod TurnNeeds
pub mod RequestNames
pub mod Opening
pub mod Picks
pub mod PuttingBack
pub mod ReachedStates
pub mod Refined
mod PlayedAnew
pub mod OtherStages
mod Reports
pub mod WorldTurns
mod Wants
mod Back
mod ReachedMoves
mod Ownership
mod Exact
mod Molds
mod StayingRequests
mod FrameMoves
mod TurnMoves
mod Creations
mod KnownFormals
mod TaskTexts
mod Scopes
mod MoveScopes
mod KnownNames
mod LeftStores
mod Acted
mod Frames
mod Growth
mod Turned
mod AwaitedRequests
pub mod Worlds
mod OneRun
pub mod SmallStates
pub mod BadStates
mod BadTurns
mod Worked
