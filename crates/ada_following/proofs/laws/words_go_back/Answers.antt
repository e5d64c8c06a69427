-- It is so in storage, where the same words are out.
use Rattle.ada_following.proofs.Runs as runs
use Rattle.ada_following.proofs.laws.words_go_back.Goals as goal

pub returns-clause-all : goal.returns-clause-all
returns-clause-all c = λ program input events last halt run. runs.all_back program input events last run halt

pub returns-clause-place : goal.returns-clause-place
returns-clause-place c = runs.has_one_place
