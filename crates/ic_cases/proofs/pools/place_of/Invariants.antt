use Rattle.ic_cases.proofs.pools.place_of.Given as goal

-- the count is the one that the blank names
abbrev pub ghosts-place_counted : goal.ghosts-place_counted
ghosts-place_counted a = record { name = a.blank.name; parts = a.blank.parts }
