-- What is kept of a core.
use Rattle.sc_handler.specs.Handlers.{State}
use Rattle.sc_handler.specs.Canonical.{canon}
use Rattle.sc_request.specs.Tables.{handler_at}
use Rattle.sc_request.specs.declared.kept_core.KeptCore as coded
use Rattle.sc_request.specs.Keeping.{rights_in}

-- the state of a core that is kept, as it is read: all handlers past those that are kept are new
abbrev pub kept_of : coded.KeptCore → State
kept_of c =
    canon (record {
      count = c.count;
      handlers = handler_at c.handlers.items c.sessions.items;
      rights = rights_in c.holders.items;
    })
