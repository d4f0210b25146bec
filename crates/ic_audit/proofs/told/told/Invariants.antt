use Rattle.std.proofs.Common.{◌≡◌, chars, flat_map, map, string_bytes, take}
use Rattle.ic_parts.specs.Sites.{site_of}
use Rattle.ic_audit.specs.Listed.{site_line}
use Rattle.ic_audit.proofs.told.told.Given as goal

-- the lines so far
abbrev pub invariant-loop-site : goal.invariant-loop-site
invariant-loop-site l = chars (string_bytes l.text) ≡ flat_map site_line (map site_of (take l.site-index l.sites))
