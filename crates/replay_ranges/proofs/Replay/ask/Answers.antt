use Rattle.replay_ranges.proofs.Replay.ask.Goals as goal

pub returns : goal.returns
returns g c = c.requires.same _ _ _ _ c.question.ensures
