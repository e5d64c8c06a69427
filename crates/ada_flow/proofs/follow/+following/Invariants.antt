use Rattle.std.proofs.Common.{◌≡◌, drop}
use Rattle.ada_flow.specs.Flow.{uses_in_links, leftmost, broken_among}
use Rattle.ada_flow.specs.Told.{broken, tracks_in}
use Rattle.ada_program.specs.Form.{links_form}
use Rattle.ada_flow.proofs.follow.+following.Given as goal

-- what is found so far, and in what is left, is what is found in all
abbrev pub invariant-broken_in_links-links : goal.invariant-broken_in_links-links
invariant-broken_in_links-links l =
    leftmost (broken l.found) (broken_among (tracks_in l.tracks) l.holds (uses_in_links (links_form (drop l.link-index l.links)))) ≡ broken_among (tracks_in l.tracks) l.holds (uses_in_links (links_form l.links))
