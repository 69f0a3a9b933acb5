use Rattle.live_talk.proofs.headed.Headed.go_on.Goals as goal

pub returns-clause-told : goal.returns-clause-told
returns-clause-told g c line = c.push_taken.ensures.ok line c.args.next
