mod RoundSteps
mod SmallRuns
mod Races
mod ForgedTellings
mod MarkBits
mod Alone
mod Readiness
