-- The graph that a builder holds.
use Rattle.std.specs.Prelude.{length, ◌≡◌}
use Rattle.aig.specs.declared.literal.Literal.{Literal}
use Rattle.load_graph.specs.code.Slices.{build_of, built_of}
use Rattle.load_graph.specs.declared.Builder.{Builder}
use Rattle.load_model.specs.Build.{Build, Built}

-- The graph in its slices.
abbrev pub build_in : Builder → Build
build_in b = build_of b.pairs.now b.counts

-- What was asked for, and the graph after it.
abbrev pub built_in : Builder → Literal → Built
built_in b r = built_of r b.pairs.now b.counts

-- A builder still has the slices that it had, each as long as it was.
pub record SameSlices (before after : Builder) : Type 0 where
  pub pairs : after.pairs.ghost_name ≡ before.pairs.ghost_name
  pub look : after.look.ghost_name ≡ before.look.ghost_name
  pub long_pairs : length after.pairs.now ≡ length before.pairs.now
  pub long_look : length after.look.now ≡ length before.look.now
