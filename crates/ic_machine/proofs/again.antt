-- What is written reads again: lines, trees and bodies.
pub mod BodyAgain
pub mod ExtendedLemmas
pub mod FormatLemmas
pub mod LineRead
pub mod LinesAgain
pub mod PlainEnds
pub mod TextEnds
pub mod TreeAgain
