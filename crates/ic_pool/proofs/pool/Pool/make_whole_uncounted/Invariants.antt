use Rattle.ic_pool.proofs.pool.Pool.make_whole_uncounted.Given as goal

-- the count is the one that the blank names
abbrev pub ghosts-make_whole_in : goal.ghosts-make_whole_in
ghosts-make_whole_in a = record { name = a.blank.name; parts = a.blank.parts }
