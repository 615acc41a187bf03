pub mod Sums
pub mod Passing
pub mod Writing
pub mod Walking
pub mod Again
pub mod Worked
