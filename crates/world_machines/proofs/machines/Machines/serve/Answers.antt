use Rattle.world_machines.proofs.Answering.{answered_ok, answered_memory}
use Rattle.world_machines.proofs.machines.Machines.serve.Goals as goal

pub returns-clause-ok : goal.returns-clause-ok
returns-clause-ok g c = λ config start spare h stands.
    answered_ok config start spare h c.args.by c.args.from c.args.request c.args.reading c.serve_by-served.result c.serve_by-served.new.self c.answered.result c.answered.ensures.entry c.answered.ensures.reply c.answered.ensures.kept
    (c.serve_by-served.ensures.moves config start spare h stands)

pub returns-clause-memory : goal.returns-clause-memory
returns-clause-memory g c = λ config start spare h stands.
    answered_memory config start spare h c.args.by c.args.from c.args.request c.args.reading c.serve_by-served.result c.serve_by-served.new.self c.answered.result c.answered.ensures.memory
    (c.serve_by-served.ensures.moves config start spare h stands)
