-- Which walks may add limits.
use Rattle.std.specs.Prelude.{Bool, true, false}
use Rattle.demands.specs.Walks.{ensuring, parallelizing, preserving, pushing, Walk}

-- Ensuring alone may add limits
abbrev pub may_add_limits : Walk → Bool
may_add_limits ensuring = true
may_add_limits parallelizing = false
may_add_limits (preserving s) = false
may_add_limits pushing = false
