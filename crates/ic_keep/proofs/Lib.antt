pub mod CapturedAgain
pub mod KeptAlike
pub mod SpelledSame
pub mod Uncaptured
pub mod Untouched
pub mod WordWalk
