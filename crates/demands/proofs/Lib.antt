mod Cases
mod Demand1
mod Demand2
mod Demand3
mod FromC
