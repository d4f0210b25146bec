-- What a reader of references answers is said as that of any reader.
pub use Rattle.ic_laws.specs.Longest.{IsLongest, FindsLongest, FindsLongestAt, is_char_boundary, read_at}
