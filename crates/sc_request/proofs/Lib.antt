mod Plays
mod Rows
mod Turns
pub mod Opening
mod OpeningTables
mod Kept
mod Sent
mod Taken
mod TakenAnswers
mod VisibleSteps
mod Exits
mod Requests
mod SettlementSteps
pub mod StageHalves
mod Outs
mod Picks
mod Lookups
mod Rounds
mod Bits
pub mod GrantedReservations
mod ChangedTables
mod BegunCounts
mod Counted
pub mod SoundHandlers
pub mod Sounds
mod Releases
mod Settles
mod JobKinds
mod Created
mod Ended
mod Fallen
pub mod Untouched
mod Reservers
mod KeptStages
mod Waiters
mod Elsewhere
mod Posters
mod Quiet
pub mod SettledCandidates
mod Sames
mod SameStates
pub mod KeptCores
mod ReadParts
mod SoundParts
mod ChangedPlaces
mod LoadedCores
